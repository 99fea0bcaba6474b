mod SimLemmas
mod StreamOnce
mod StreamFirst
