pub mod Samples
pub mod Computed
pub mod Derived
pub mod Faulted
pub mod LargestLaws
pub mod DerivedPlaces
