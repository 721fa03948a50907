-- The laws of windows.
pub mod EndDays
pub mod Found
pub mod Seasons
