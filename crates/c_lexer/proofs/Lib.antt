mod PieceLemmas
mod TokenLemmas
