mod CalledLemmas
