-- What the contracts of `intersection` cite, and no demand: `Sets`, `Cases` and `Centres` those of the public functions, `Steps` those of the functions between them.
pub mod Sets
pub mod Cases
pub mod Centres
pub mod Steps
