pub mod FromCif
