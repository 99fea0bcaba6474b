mod Convert
mod Ordered
