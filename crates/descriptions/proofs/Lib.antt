mod SignatureLaws
mod NotedLaws
mod MeaningLaws
mod TypeLaws
