pub mod PartlyLaws
