pub mod Advising
