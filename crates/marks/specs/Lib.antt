-- What the promises of `marks` speak of.
pub mod Put
