pub mod Arrays
pub mod Assigned
pub mod BatchRuns
pub mod Coded
pub mod Left
pub mod Noted
pub mod RowsRun
pub mod StreamRuns
