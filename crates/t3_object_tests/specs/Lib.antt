pub mod Rising
pub mod RisingLaw
pub mod Listed
pub mod ListedLaw
pub mod Places
