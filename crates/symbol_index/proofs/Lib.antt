pub mod StemLaws
