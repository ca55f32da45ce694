-- A growth was refused. No other module can open the word.
pub GrowthRefused : Type 0
GrowthRefused = Unit {0}

-- It is shown at the refusals of growing calls alone, in the `growth` modules of the crates that list this one.
pub refused : GrowthRefused
unfolding GrowthRefused
refused = tt
