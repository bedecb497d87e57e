mod LineLemmas
mod SumLemmas
