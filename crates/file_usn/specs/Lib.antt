pub mod FileUsn
