-- For private functions: how a line is read, word by word. No public clause needs what is here.
pub mod Line
pub mod ScriptLine
