pub mod Text
pub mod TextLaws
pub mod SheetLength
pub mod Put
pub mod TextPrinted
pub mod PrintedLaws
