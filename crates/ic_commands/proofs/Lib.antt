pub mod WordSplits
pub mod LineReading
pub mod LineTold
pub mod LineParts
pub mod LineLaws
pub mod NoMemory
pub mod ScriptLines
pub mod PlainLines
