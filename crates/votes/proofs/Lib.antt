-- The laws of votes.
pub mod Largest
pub mod Made
pub mod Voting
pub mod Winner
pub mod Column
pub mod Cases
