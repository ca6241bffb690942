pub mod FirstLineLaws
pub mod UndisclosedRecipientsLaws
