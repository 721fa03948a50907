-- The laws of reading: from the decoders' contracts to the readings that document 01 defines.
pub mod StripReading
pub mod MarkReading
pub mod Loading
pub mod Early
pub mod Cells
pub mod StripLoaded
pub mod MarkLoaded
