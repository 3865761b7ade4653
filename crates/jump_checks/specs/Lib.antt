pub mod Claimed
pub mod Origins
