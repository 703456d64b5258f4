-- Laws of the numbered replies.
pub mod RefusalLaws
