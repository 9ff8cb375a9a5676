-- What the listing of a job says.
pub mod Report
