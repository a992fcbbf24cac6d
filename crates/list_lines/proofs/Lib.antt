mod TextLaws
