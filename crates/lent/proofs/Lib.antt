-- The laws of bytes in lent memory.
pub mod Put
