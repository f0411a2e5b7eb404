pub mod Contents
pub mod Survey
