pub mod Transcript
