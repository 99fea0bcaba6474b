mod Noted
mod Pairs
