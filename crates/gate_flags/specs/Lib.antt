-- Values: the values that a flag text gives to gates.
-- Flags: which flag texts a release accepts (component-base's --feature-gates), and the first fault of the others.
-- Lookups: what is looked up by name while a text is read.
-- Laws: what follows from the definitions of flag texts.
pub mod Values
pub mod Flags
pub mod Lookups
pub mod Laws
