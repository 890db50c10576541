pub mod StoredTables
pub mod TableBytes
pub mod TableTrips
