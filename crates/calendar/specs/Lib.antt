-- Dates, and the calendar's laws as statements.
pub mod Dates
pub mod Calendar
