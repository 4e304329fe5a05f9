-- Objects: what can be copied of an object.
-- Convert: what an object is converted to, and why it can't be.
-- Laws: what follows from the definition of conversion.
-- Code: what functions of this crate give on their way.
pub mod Objects
pub mod Convert
pub mod Laws
pub mod Code
