pub mod Booleans
pub mod Dividing
pub mod Inside
pub mod Laws
pub mod ShapeLaws
pub mod Shapes
