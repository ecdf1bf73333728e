pub mod Wing
