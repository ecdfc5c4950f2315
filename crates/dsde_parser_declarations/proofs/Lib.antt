mod DeclLemmas
