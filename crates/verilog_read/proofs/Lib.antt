mod Limited
mod Judged
pub mod Spanned
