pub mod Verilog
pub mod Lines
