pub mod Layouts
pub mod DemandOne
pub mod DemandTwo
pub mod DemandThree
pub mod Beginnings
pub mod BusyList
pub mod Spreads
