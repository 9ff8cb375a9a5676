-- Paths of unit steps between whole-decimetre points, and the length of their union (02, C-19).
pub mod Paths
