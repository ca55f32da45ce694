-- The start of a thread was refused. No other module can open the word.
pub StartRefused : Type 0
StartRefused = Unit {0}

-- It is shown where a start was refused, in one module of the crate that starts threads.
pub unstarted : StartRefused
unfolding StartRefused
unstarted = tt
