mod Parses
mod Options
