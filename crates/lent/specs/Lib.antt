-- Bytes in lent memory.
pub mod Put
