-- One cell of several photographs: votes, and the combined cell.
pub mod Votes
pub mod Majority
pub mod Cases
