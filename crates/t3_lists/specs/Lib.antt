pub mod Vector
pub mod Items
pub mod ItemLaw
pub mod Inner
