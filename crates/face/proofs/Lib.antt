pub mod Checked
pub mod FaceChecked
