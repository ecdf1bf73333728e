pub mod Checked
pub mod Face
pub mod FaceChecked
