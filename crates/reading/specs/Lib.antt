-- What the contracts of reading need beside the definitions: how photographs are taken and loaded, and the cells that differ.
pub mod Loading
pub mod Differing
