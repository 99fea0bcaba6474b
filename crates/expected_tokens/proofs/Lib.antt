mod Table
mod Tried
mod Those
