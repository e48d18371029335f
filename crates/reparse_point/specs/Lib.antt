pub mod Reparse
