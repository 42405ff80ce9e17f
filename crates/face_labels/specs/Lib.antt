pub mod RowSides
