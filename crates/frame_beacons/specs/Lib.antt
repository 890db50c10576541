pub mod Beacons
pub mod EitherBeacons
pub mod ShortBeacons
