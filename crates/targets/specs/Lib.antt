-- The definitions: targets and their rules, and what a target wants in words.
pub mod Target
pub mod Wanted
