pub mod Unique
mod PartReaders
mod ParsedParts
mod Modules
mod Sameness
mod Exclusion
