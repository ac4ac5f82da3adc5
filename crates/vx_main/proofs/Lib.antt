pub mod StatusRows
