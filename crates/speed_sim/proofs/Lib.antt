pub mod AdvanceLaws
pub mod CodeLaws
pub mod ProgressLaws
pub mod ReportLaws
pub mod TallyLaws
pub mod SeenLaws
