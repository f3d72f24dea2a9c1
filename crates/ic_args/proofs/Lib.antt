mod FirstWords
mod Making
mod Meeting
