mod PrintLaws
mod TextLaws
